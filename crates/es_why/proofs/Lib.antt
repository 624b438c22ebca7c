pub mod Bounds
pub mod Equivalence
pub mod Found
pub mod Numbered
pub mod Parts
pub mod Places
pub mod Setting
pub mod Sources
pub mod Told
pub mod Weakly
mod Drawn
mod Ranged
mod Said
pub mod ExampleLeads
