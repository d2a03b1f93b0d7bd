pub mod DayLemmas
pub mod Examples
pub mod MonthLemmas
pub mod NumberLemmas
pub mod TextLemmas
