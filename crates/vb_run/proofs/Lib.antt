pub mod Lists
pub mod Tended
pub mod Histories
pub mod Keeping
pub mod Noted
pub mod Gathered
pub mod Distinct
pub mod Closing
pub mod Starting
mod PlanFacts
mod RoundFacts
mod EntryFacts
mod NoteFacts
mod ServiceFacts
mod ReportFacts
mod MadeFacts
mod PastFacts
mod PlannedFacts
