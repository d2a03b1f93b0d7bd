pub mod ClauseText
pub mod Symbols
