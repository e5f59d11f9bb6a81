pub mod Answers
pub mod Bits
pub mod After
pub mod Agreement
