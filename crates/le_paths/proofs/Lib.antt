mod Examples
pub mod Leads
pub mod Leaves
