pub mod Code
pub mod Memory
pub mod Outside
pub mod Ranges
pub mod Stop
