pub mod Places
pub mod Lines
pub mod Lined
pub mod Sound
pub mod Changes
pub mod Emptied
pub mod Processes
pub mod Shown
pub mod LentBy
pub mod Guests
pub mod Lists
pub mod Grants
pub mod Granting
pub mod Budget
pub mod Toward
pub mod Moving
pub mod Same
pub mod Targeting
pub mod Passing
pub mod Uncounted
pub mod Preferring
pub mod Deferring
pub mod Ordered
pub mod Settling
pub mod Heard
pub mod Giving
pub mod Serving
pub mod Receiving
pub mod Possible
pub mod Outcome
pub mod Staying
pub mod Events
pub mod Lower
pub mod RoomLeft
pub mod Limits
pub mod Proceeding
pub mod Telling
pub mod Said
pub mod Pacing
pub mod Relieving
mod SeatFacts
mod SystemFacts
mod RunFacts
mod RoundFacts
mod OutstandingFacts
mod PatienceFacts
mod OutsideFacts
mod LeastFacts
mod MessageFacts
mod PaceFacts
mod ReliefFacts
pub mod Mapped
pub mod AllGranted
pub mod TurnsGiven
