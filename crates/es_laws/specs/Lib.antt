pub mod Caught
pub mod Later
pub mod Memory
pub mod Races
