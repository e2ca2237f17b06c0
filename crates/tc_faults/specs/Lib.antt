pub mod Fault
pub mod Check
pub mod Located
pub mod Places
