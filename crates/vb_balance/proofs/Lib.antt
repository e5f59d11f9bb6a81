pub mod Spares
pub mod Shares
mod PolicyFacts
mod ShareFacts
