pub mod Candidates
pub mod Keys
pub mod Laws
pub mod Listing
