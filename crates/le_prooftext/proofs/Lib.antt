pub mod Counts
pub mod Examples
pub mod NodeLemmas
pub mod Numbers
pub mod TextLemmas
pub mod TreeLemmas
pub mod WordLemmas
pub mod WrittenLines
