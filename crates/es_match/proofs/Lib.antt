pub mod Accounts
mod Calls
pub mod Bridge
mod ByOne
pub mod Calming
pub mod Counting
pub mod Deciding
pub mod ExampleCluster
mod ExampleNeighbours
mod ExampleReceipt
pub mod Examples
mod Lists
pub mod Passing
pub mod Ticketed
mod Running
pub mod Sleeping
mod Noted
mod Posted
pub mod Splitting
