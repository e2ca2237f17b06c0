pub mod Attribute
pub mod Message
pub mod Upgrade
