pub mod RegionLemmas
pub mod ProgressLemmas
pub mod PartLemmas
pub mod CopyLemmas
pub mod PartCosts
pub mod BufferLemmas
pub mod NextLemmas
pub mod StepLemmas
pub mod LeftLemmas
pub mod OrderLemmas
pub mod TableRowLemmas
pub mod TouchLemmas
pub mod PartCounts
mod RoomFacts
mod QueueFacts
mod KindTurnFacts
mod RegionFacts
mod FewFacts
mod NoticeFacts
mod OrderFacts
pub mod PlaceLemmas
mod PlaceFacts
mod LieFacts
mod BalloonFacts
mod RestoreFacts
mod StartFacts
pub mod TurnEnds
pub mod TurnLemmas
pub mod NamedLemmas
pub mod TurnNames
pub mod TurnRows
pub mod TurnWalks
pub mod HintTurns
pub mod TurnLaws
pub mod HeldBackLemmas
pub mod RoundLemmas
mod HintFacts
mod SnapshotFacts
pub mod PartsOfRunLemmas
mod Samples
mod RowFacts
mod TouchFacts
mod SoFarFacts
mod TurnFacts
mod TellingFacts
mod HeldBackFacts
mod HoldingFacts
mod HeldPagesFacts
mod PartsOfRunsFacts
mod StepFacts
mod MachineFacts
mod AheadFacts
mod AheadToldFacts
mod GivingFacts
mod HoleFacts
mod ChainFacts
mod TableRowFacts
mod LookFacts
mod WholeFacts
mod NamedFacts
mod PortionFacts
mod PauseFacts
mod TwoFacts
mod StatisticsFacts
pub mod RoomLemmas
pub mod BudgetLemmas
pub mod BudgetTurns
pub mod LargeLemmas
pub mod LargeRows
pub mod LargeLaws
mod LargeFacts
mod LargeWaitFacts
mod WholeReportFacts
mod WholeHintFacts
mod LifeFacts
mod KeepsFacts
pub mod OpenLemmas
pub mod WithinLemmas
pub mod StillWalk
pub mod StillParts
pub mod StillPortions
pub mod StillFound
pub mod StillAnswers
pub mod StillLaws
pub mod StillReports
mod StillReadFacts
mod StillFacts
mod StillNextFacts
mod WithinFacts
