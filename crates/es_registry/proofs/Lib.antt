pub mod Counting
pub mod Found
pub mod Indexing
pub mod Listed
pub mod Listing
pub mod Oldest
pub mod Rooms
