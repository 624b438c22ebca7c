pub mod Whole
mod Growing
mod Scribing
