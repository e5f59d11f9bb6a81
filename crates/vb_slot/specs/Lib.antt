pub use Rattle.vb_guest.specs.Stands
pub use Rattle.vb_guest.specs.Supply
pub use Rattle.vb_guest.specs.Steps
pub use Rattle.vb_guest.specs.Replies
pub mod Slots
pub mod Spare
pub mod Alone
