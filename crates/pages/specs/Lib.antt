-- What the page layer promises.
pub mod Limits
pub mod Table
pub mod Rule
pub mod Faults
pub mod Spans
pub mod Calls
pub mod Lowest
pub mod Placement
pub mod FirstFitRule
pub mod Tables
pub mod Placements
pub mod Rows
