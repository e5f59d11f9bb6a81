pub mod TableLemmas
pub mod Aligned
pub mod Sets
pub mod TilesLemmas
pub mod HalvesLemmas
pub mod AreasLemmas
pub mod ListsLemmas
pub mod FreeLemmas
pub mod ServingLemmas
pub mod HeldLemmas
pub mod PagesLemmas
mod NumberFacts
mod AreaFacts
mod ChoiceFacts
mod TableFacts
mod TakeFacts
mod StateFacts
