pub mod Cuts
pub mod Digits
pub mod Hex
pub mod InOrder
pub mod Numbered
pub mod Ranged
pub mod Speaking
pub mod ThreadsFacts
mod EventFacts
mod NumberFacts
mod TextFacts
pub mod WordLemmas
pub mod ByLength
