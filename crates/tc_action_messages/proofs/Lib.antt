pub mod Bodies
pub mod Nuls
pub mod Trimming
pub mod TrimmedLists
