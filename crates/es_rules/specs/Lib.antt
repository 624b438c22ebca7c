pub mod Completion
pub mod Numbers
pub mod Needs
pub mod Shown
pub mod Giving
