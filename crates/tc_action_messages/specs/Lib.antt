pub mod Flags
pub mod ActionMessageAttribute
pub mod ActionMessage
