pub mod CallerLemmas
pub mod Fronts
pub mod Gathering
pub mod PairLists
pub mod Rows
pub mod Tests
mod MoreRoots
