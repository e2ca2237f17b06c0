pub mod Scope
pub mod Messages
pub mod Actions
pub mod Within
pub mod Named
