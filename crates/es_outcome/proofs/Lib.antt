pub mod Tallied
pub mod Placed
pub mod Closing
pub mod Ended
pub mod Telling
pub mod Silent
mod Waiting
mod ExampleOutcome
pub mod Honest
