pub mod Rewriting
pub mod Facade
