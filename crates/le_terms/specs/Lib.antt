pub mod Names
pub mod Program
pub mod Tree
pub mod Variables
pub mod Walks
