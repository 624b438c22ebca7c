pub mod Slots
pub mod Cells
pub mod Places
pub mod Registries
