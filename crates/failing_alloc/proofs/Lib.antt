pub mod Fields
pub mod Step
