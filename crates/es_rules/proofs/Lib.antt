pub mod Needs
pub mod Answering
pub mod Numbers
