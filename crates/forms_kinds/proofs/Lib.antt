pub mod Distinct
pub mod EachPart
