pub mod KeyLaw
mod Listings
mod Searching
