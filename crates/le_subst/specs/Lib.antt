pub mod Solution
pub mod Steps
pub mod Symbols
pub mod Unifiers
