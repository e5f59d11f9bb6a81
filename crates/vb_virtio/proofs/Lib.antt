pub mod Tables
pub mod Distinct
pub mod Ranges
pub mod Sums
pub mod Unique
pub mod Queues
pub mod Shapes
pub mod Differ
mod LimitFacts
mod FeatureFacts
mod QueueFacts
pub mod TargetFacts
