pub mod Fronts
pub mod PaddedLists
pub mod Decisions
pub mod OwnKind
pub mod FlowerWidths
pub mod Places
pub mod Choices
