pub mod Tables
pub mod Registries
pub mod Changes
pub mod Effects
pub mod Ready
pub mod Found
pub mod Plain
pub mod Tags
