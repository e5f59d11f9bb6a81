pub mod BitLemmas
pub mod Accepted
pub mod Ways
mod StatusFacts
