pub mod Lengths
pub mod Lists
pub mod Parts
pub mod Phrases
pub mod Scopes
pub mod Simple
