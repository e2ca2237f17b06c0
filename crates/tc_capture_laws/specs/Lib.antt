pub mod Fronts
pub mod Pieces
pub mod Parts
pub mod Reading
pub mod Files
