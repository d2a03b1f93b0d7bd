pub mod Examples
mod Meaning
mod Numbers
pub mod Variants
