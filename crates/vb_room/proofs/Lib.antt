pub mod Bare
pub mod Counting
pub mod Roomy
pub mod Room
pub mod Seats
pub mod Stay
pub mod Balloons
pub mod Called
pub mod Owed
pub mod Lent
pub mod Beside
mod TieFacts
mod CountFacts
mod BesideFacts
mod LawFacts
