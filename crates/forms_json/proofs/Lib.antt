mod Frames
pub mod RecordsAgain
pub mod Found
pub mod Ordered
pub mod Law
mod Showing
mod Making
