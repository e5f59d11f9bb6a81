pub mod Request
pub mod Statistics
pub mod Report
pub mod Asked
pub mod Refusals
mod Kept
