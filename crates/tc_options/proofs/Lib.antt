pub mod ActionLists
pub mod Bodies
pub mod Values
pub mod KindLists
pub mod UnknownKinds
