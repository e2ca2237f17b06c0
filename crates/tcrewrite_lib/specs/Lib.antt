pub mod Arguments
pub mod Text
pub mod Report
pub mod Answer
pub mod Run
pub mod Written
pub mod Retries
