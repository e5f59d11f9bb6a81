pub mod Lists
pub mod Keeps
pub mod Shares
mod RuleFacts
mod StepFacts
