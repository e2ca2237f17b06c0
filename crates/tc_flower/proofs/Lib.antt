pub mod MplsLists
pub mod MplsBodies
pub mod Spans
pub mod FlowerReads
pub mod Bodies
pub mod Copies
pub mod Same
