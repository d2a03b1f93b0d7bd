pub mod Advancing
pub mod Built
pub mod Children
pub mod Passing
pub mod SelectedAt
pub mod Turning
pub mod UnderWay
pub mod Walking
