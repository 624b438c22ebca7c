pub mod Words
pub mod Texts
pub mod Misshapen
pub mod Causes
pub mod Unread
pub mod Coded
pub mod Explaining
pub mod Told
