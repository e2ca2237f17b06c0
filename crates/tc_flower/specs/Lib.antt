pub mod Mpls
pub mod Flower
pub mod Spans
pub mod Held
pub mod Reading
