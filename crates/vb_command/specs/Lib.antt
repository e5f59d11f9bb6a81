pub mod Arguments
pub mod Commands
pub mod Ends
pub mod Faults
pub mod Plans
pub mod Plays
pub mod Threads
