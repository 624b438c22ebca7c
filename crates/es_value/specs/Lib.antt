pub mod Limits
pub mod Spelling
pub mod Values
pub mod Ids
pub mod Printed
