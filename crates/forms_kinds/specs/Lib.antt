pub mod Parts
pub mod Table
