pub mod Bounds
pub mod Cuts
pub mod Faults
pub mod Headers
pub mod Kinds
pub mod Rule
pub mod Sections
