pub mod Replies
pub mod Keeps
pub mod Rows
pub mod Clusters
