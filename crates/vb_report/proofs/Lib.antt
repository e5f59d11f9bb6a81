pub mod Covering
pub mod Giving
pub mod Maximal
pub mod Filtering
pub mod Choosing
pub mod Taking
mod BlockFacts
mod ChoiceFacts
