pub mod Examples
pub mod Few
pub mod Firsts
pub mod NameLists
pub mod Preorder
pub mod Same
pub mod Spans
