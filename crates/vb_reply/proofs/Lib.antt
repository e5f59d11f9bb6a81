pub mod Putting
mod ReplyFacts
mod HeldFacts
