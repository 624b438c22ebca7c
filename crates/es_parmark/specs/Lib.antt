pub mod Copying
pub mod Gathered
pub mod Pairs
pub mod Snapshot
