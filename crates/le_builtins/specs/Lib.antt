pub mod Compute
pub mod Lists
pub mod Numbers
pub mod Sentences
