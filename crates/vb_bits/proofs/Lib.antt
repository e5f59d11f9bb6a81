pub mod Bits
pub mod Levels
pub mod Words
mod SetFacts
mod LevelFacts
