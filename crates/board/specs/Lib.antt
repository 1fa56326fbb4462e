-- What a board promises.
pub mod Marks
pub mod Faults
pub mod Views
pub mod Tickets
pub mod Calls
