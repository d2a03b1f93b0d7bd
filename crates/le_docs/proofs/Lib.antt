pub mod CutLemmas
pub mod Examples
pub mod FaultLemmas
pub mod GovernLemmas
pub mod HeaderLemmas
pub mod SectionLemmas
pub mod SentenceLemmas
