pub mod AgentView
pub mod Newest
pub mod NextCell
pub mod Tagged
pub mod Ties
pub mod Graph
pub mod Leading
