pub mod Decoding
pub mod Outcomes
pub mod Reports
pub mod Streams
pub mod Fronts
