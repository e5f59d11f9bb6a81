pub mod Once
pub mod Bytes
pub mod RequestPages
pub mod OneRequest
pub mod Reports
pub mod LastStatistics
mod NumberFacts
mod RequestFacts
mod PageFacts
mod ReportFacts
mod StatisticsFacts
mod AskedFacts
pub mod Chains
