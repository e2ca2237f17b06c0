pub mod EntrySteps
pub mod Steps
