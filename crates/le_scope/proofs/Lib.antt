pub mod AskedLemmas
mod Examples
pub mod LengthsLaw
pub mod ListForms
pub mod ListsLaw
pub mod PartLemmas
pub mod RowLemmas
pub mod RunLemmas
pub mod SimpleLaw
pub mod TokenLemmas
pub mod ValueLemmas
