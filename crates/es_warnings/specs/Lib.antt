pub mod Known
pub mod Mentions
pub mod Texts
pub mod Warnings
