pub mod ExamplePlaces
pub mod ExampleWords
pub mod ExampleCauses
pub mod Counts
