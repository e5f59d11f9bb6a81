pub mod Free
pub mod Least
pub mod Returns
mod OutFacts
