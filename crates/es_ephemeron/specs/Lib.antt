pub mod Ephemerons
pub mod Slots
