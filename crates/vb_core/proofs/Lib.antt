pub mod RingLemmas
pub mod DenialLemmas
pub mod RunLemmas
pub mod OneTelling
pub mod NameLemmas
pub mod NamedLaws
pub mod CountLemmas
pub mod MarkLemmas
pub mod UnmarkLemmas
mod Examples
mod SettingFacts
mod NameFacts
mod FitFacts
mod ConfigFacts
mod StartFacts
mod RunFacts
mod SavedFacts
mod DenialFacts
pub mod Rows
mod ReportFacts
mod NamingFacts
mod SetFacts
mod QueueFacts
mod LifeFacts
mod WriteFacts
mod FormatFacts
mod HeldFacts
mod HintFacts
pub mod HintLemmas
pub mod Numbers
pub mod PieceLemmas
pub mod RoundTrip
pub mod Restoring
