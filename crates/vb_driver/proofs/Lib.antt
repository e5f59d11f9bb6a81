pub mod Counting
pub mod Placing
pub mod Runs
pub mod Marking
pub mod Buffers
pub mod RequestTables
pub mod ReportTables
pub mod Shapes
pub mod Posting
pub mod Naming
pub mod Keeping
pub mod Moving
pub mod Resetting
pub mod Failing
pub mod Sizes
pub mod Flags
pub mod Allocating
pub mod Owning
pub mod Zeroing
pub mod Starting
pub mod Figures
pub mod OneBuffer
pub mod Filling
pub mod ReportAreas
pub mod ReportPosting
pub mod ReportMoves
pub mod Restarting
mod DriverFacts
mod StepFacts
mod PostFacts
mod KeptFacts
mod AreaFacts
mod CauseFacts
