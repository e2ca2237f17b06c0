mod Events
mod Same
