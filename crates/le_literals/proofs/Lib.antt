pub mod Items
pub mod Raising
pub mod Walks
