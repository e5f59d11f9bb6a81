pub mod Store
pub mod One
pub mod Alike
pub mod Registers
pub mod Tied
