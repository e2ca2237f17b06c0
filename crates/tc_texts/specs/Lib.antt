pub mod Addresses
pub mod Handle
pub mod Hex
pub mod Escape
pub mod Info
pub mod Reading
