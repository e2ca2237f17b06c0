pub mod Attributes
pub mod AttributesMade
pub mod Frames
pub mod Kinds
pub mod RowLists
pub mod Rows
