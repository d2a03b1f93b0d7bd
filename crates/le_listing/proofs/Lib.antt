pub mod Examples
pub mod Steps
pub mod SymbolSteps
pub mod NoteSteps
