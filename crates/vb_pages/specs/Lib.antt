pub mod Table
pub mod Areas
pub mod Tiles
pub mod FreePages
pub mod Held
pub mod PageState
