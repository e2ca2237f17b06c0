pub mod Model
pub mod Requests
pub mod Plans
pub mod Planned
pub mod Objects
pub mod Promises
pub mod Scope
