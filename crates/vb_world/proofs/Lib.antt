pub mod KeeperFrames
pub mod Guests
pub mod Frames
pub mod Calls
pub mod Plugs
pub mod Runs
pub mod Lives
pub mod Aiming
pub mod Balancing
mod HostFacts
mod WorldFacts
