pub mod Made
pub mod Ordered
pub mod Shown
