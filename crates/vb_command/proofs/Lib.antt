pub mod Paces
pub mod Passes
pub mod Planning
pub mod Playing
pub mod Reading
pub mod Reporting
pub mod Speaking
mod ArgumentFacts
pub mod EndFacts
mod FaultFacts
mod CommandFacts
pub mod RunFacts
