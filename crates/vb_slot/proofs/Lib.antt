pub mod FreshStands
pub mod AloneSteps
pub use Rattle.vb_guest.proofs.Standing
pub use Rattle.vb_guest.proofs.Fresh
pub mod AloneSizes
mod SpareFacts
mod SlotFacts
