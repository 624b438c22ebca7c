pub mod Observing
pub mod Refusing
pub mod Whole
pub mod LedTo
pub mod Open
mod Accesses
mod ExampleAccesses
mod ExampleRaces
pub mod Letters
pub mod Worked
pub mod Steps
pub mod DecidingLate
pub mod ExampleDeref
pub mod ExampleProperties
pub mod ExampleRefusals
pub mod ExampleCaught
pub mod ExampleKeys
pub mod ExampleSymbols
pub mod ExampleWeakSymbols
pub mod ExampleEmpty
pub mod ExampleCluster
pub mod ExampleCollect
pub mod ExampleLate
pub mod ExampleEphemerons
pub mod ExampleRegistries
pub mod ExampleCleanups
pub mod ExampleRegistryNeighbours
pub mod ExampleNeighbours
pub mod ExampleBuffers
pub mod ExampleNumbers
mod ExampleWaits
pub mod ExampleMessages
pub mod ExampleMessageNeighbours
