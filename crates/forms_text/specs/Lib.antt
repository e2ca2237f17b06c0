pub mod Make
pub mod Read
pub mod Text
pub mod Strict
