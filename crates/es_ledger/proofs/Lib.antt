pub mod Lines
pub mod Numbered
mod Queues
pub mod Lying
pub mod Mailed
pub mod Untouched
mod After
pub mod Made
mod Tallies
pub mod Within
pub mod Sums
pub mod Auditing
mod InOrder
pub mod Plain
mod ExampleBlocks
mod ExamplePorts
mod ExampleWaiters
pub mod Columns
pub mod Mail
pub mod Kept
pub mod Tying
pub mod Opening
pub mod Ending
pub mod Beginning
pub mod Leaving
pub mod Waking
pub mod Taken
pub mod Slept
pub mod Waits
pub mod Lain
pub mod Sending
pub mod Emptying
