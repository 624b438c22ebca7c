pub mod Items
pub mod Lines
pub mod Tried
pub mod Steps
pub mod Numbered
