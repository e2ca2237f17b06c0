mod Kept
mod KindTexts
mod Written
mod Upgrades
