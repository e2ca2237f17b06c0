pub mod OwnKinds
pub mod Checks
pub mod Offsets
