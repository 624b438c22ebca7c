pub mod Values
pub mod Events
pub mod Kept
pub mod Ledger
