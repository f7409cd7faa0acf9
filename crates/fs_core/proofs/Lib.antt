pub mod SpellingHeads
pub mod SpellingUnits
pub mod SpellingBodies
pub mod SpellingAsides
pub mod FlyingFrames
pub mod FlyingLists
pub mod Putting
pub mod MarkingLists
pub mod Marking
pub mod Sending
pub mod SpellingWishes
pub mod SendingCalls
pub mod SendingAsides
pub mod MarkingJoined
pub mod LandingLists
mod Edits
mod SharePaths
pub mod MarkingStarved
pub mod SendingParts
pub mod MarkingGoing
pub mod MarkingLanded
mod LandingLoop
pub mod LandingCalls
pub mod LandingTurns
pub mod LandingAwaited
pub mod LandingHeard
pub mod LandingSaid
pub mod LandingPhases
pub mod LandingSteps
pub mod Landing
pub mod LandingMounts
pub mod LandingFaults
mod Composed
