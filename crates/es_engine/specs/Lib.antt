pub mod Checks
pub mod Faults
pub mod Statuses
pub mod Texts
pub mod Engine
pub mod Laws
