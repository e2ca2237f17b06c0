mod FirstRows
mod Single
mod OwnKinds
mod Framing
