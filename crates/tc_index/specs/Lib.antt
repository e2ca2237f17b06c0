pub mod Tables
pub mod Nesting
pub mod Attributes
pub mod Views
pub mod Nodes
pub mod Offsets
pub mod Spots
