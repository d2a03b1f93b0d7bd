mod General
pub mod Work
pub mod Pairs
pub mod Occurring
