pub mod Telling
pub mod Doing
pub mod Spending
pub mod Calm
pub mod Commands
pub mod Messages
pub mod Newest
pub mod Sleepless
pub mod Rousing
pub mod Waiting
pub mod Deciding
pub mod Turning
pub mod Running
pub mod Begun
pub mod OneRun
pub mod Ends
pub mod Holding
pub mod Only
pub mod Rack
pub mod Racked
pub mod Turn
pub mod Cluster
pub mod Arriving
pub mod Plans
mod ExampleTurn
mod ExampleIllegal
mod ExampleEnds
mod ExampleStuck
mod ExampleMoves
mod Liking
mod Framing
pub mod Choosing
mod Beside
mod Swapping
mod Bringing
mod Coming
mod Unfolding
mod Gathering
pub mod Playing
mod TurningThreads
mod Needing
mod Sleeps
mod Settling
mod Stepping
mod Pausing
mod Hearing
mod Resting
mod Through
mod Dozing
mod Starting
pub mod Draining
pub mod Ending
pub mod Converse
mod ExampleRace
mod Touching
mod Beyond
mod Sane
mod Pending
mod Certain
mod Renaming
mod Weighing
mod Names
mod Ports
mod Others
mod Opened
mod Opening
mod PlayingAlike
mod Learning
mod Wording
mod Racing
mod Still
mod Skipping
mod Asking
mod Known
mod Passing
mod Letters
mod Silence
mod DoingAlike
mod Receiving
mod TurningAlike
mod Along
mod Composing
mod Wordless
mod Reporting
pub mod Reports
mod ExampleWords
mod ExampleSleepless
mod ExampleOrdered
mod ExampleSleep
