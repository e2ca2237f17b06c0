pub mod Inner
pub mod Value
pub mod Row
pub mod AttributeWords
pub mod Bodies
pub mod Same
pub mod Forgets
pub mod Records
