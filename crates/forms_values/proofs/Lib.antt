pub mod Leaves
pub mod Members
pub mod Search
pub mod Sending
pub mod Appending
