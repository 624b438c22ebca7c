pub mod Places
pub mod Outcomes
pub mod Said
pub mod Laws
