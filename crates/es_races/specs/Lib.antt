pub mod Pass
pub mod Verdict
pub mod Places
pub mod Races
pub mod Texts
pub mod Walks
