pub mod Sums
pub mod Giving
pub mod Divisions
pub mod Settling
pub mod Maps
pub mod Order
pub mod Enough
pub mod Fairness
pub mod Later
pub mod Alike
pub mod Rest
pub mod Joins
mod DivisionFacts
mod TargetFacts
mod NeedsFacts
mod PressureFacts
mod MachineFacts
