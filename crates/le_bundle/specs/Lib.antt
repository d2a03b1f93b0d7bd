pub mod Bundle
pub mod Endings
pub mod Head
pub mod Lines
pub mod Numbers
pub mod Parts
pub mod Reads
pub mod Written
