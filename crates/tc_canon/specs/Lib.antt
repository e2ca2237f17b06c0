pub mod Descriptor
pub mod Layouts
pub mod Tables
pub mod Kind
pub mod Canonical
pub mod Front
pub mod Order
pub mod Widths
