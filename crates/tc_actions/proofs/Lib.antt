pub mod StatsBodies
pub mod OptionBodies
pub mod OptionLists
pub mod Bodies
pub mod Scanning
pub mod AttributeLists
pub mod ActionLists
