pub mod Takes
pub mod FourQueues
pub mod TakesBy
pub mod Finishes
pub mod FromNext
pub mod Discards
pub mod Rings
pub mod Sizes
pub mod Marks
pub mod LooseFrames
pub mod Settles
pub mod Visits
pub mod Serves
pub mod ServeCases
pub mod OwnFrames
pub mod OwnServes
pub mod ServedChains
mod CallFacts
mod StepFacts
mod TakeFacts
mod ServeFacts
mod OwnFacts
mod QueueFacts
mod BaseFacts
