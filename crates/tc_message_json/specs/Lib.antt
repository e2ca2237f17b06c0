pub mod Sent
pub mod Made
