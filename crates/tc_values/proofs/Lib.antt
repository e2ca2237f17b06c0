pub mod AnyKind
pub mod Bodies
mod KindSetByFrame
pub mod Lists
pub mod Measures
pub mod OfKinds
pub mod Records
pub mod Rows
pub mod SameRows
mod Stripped
pub mod Unread
pub mod Values
