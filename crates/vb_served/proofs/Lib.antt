pub mod Frames
pub mod ChainAgreement
pub mod ReadLemmas
pub mod RoomLemmas
pub mod WholeMemory
pub mod MayServe
pub mod MarkLemmas
pub mod FigureLemmas
pub mod StaysLemmas
pub mod EndLemmas
pub mod OneLemmas
pub mod OneKinds
pub mod NextLemmas
pub mod WordLemmas
pub mod ElementLemmas
pub mod LostFrames
pub mod CutLemmas
pub mod RunPages
pub mod RequestLemmas
pub mod TakeLemmas
pub mod AlikeLemmas
pub mod ShapeLemmas
pub mod UsedRequests
pub mod TieLemmas
pub mod TieRequests
pub mod TieStatistics
pub mod TieReports
pub mod TieQueues
pub mod RegisterLemmas
pub mod ServerLemmas
mod StoreFacts
mod OneFacts
mod TieFacts
