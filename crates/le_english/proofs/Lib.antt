mod AdmittedLines
mod ArgumentLemmas
mod AsciiLemmas
mod AtomLemmas
mod BackLemmas
mod DayLemmas
pub mod DeclaredLemmas
mod DraftLemmas
mod ExplainExamples
mod Examples
mod FormLemmas
mod Forms
mod LineLemmas
mod LineSteps
mod NameLemmas
pub mod NamedTerms
mod Passing
mod PhraseLemmas
mod PlainLemmas
mod ProofLines
mod RangeLemmas
mod ReadingLemmas
mod Refuted
mod Reshaped
pub mod SaidLiterals
pub mod SaidNodes
mod SaidTrees
mod SayLemmas
mod SymbolLemmas
mod TermLemmas
mod ThingLemmas
mod TreeLemmas
mod Trees
mod ValueLemmas
mod VariableLemmas
mod WordLemmas
