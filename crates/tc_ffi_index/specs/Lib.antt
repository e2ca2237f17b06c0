pub mod Verdict
pub mod Nodes
pub mod Next
