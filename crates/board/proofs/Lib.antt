-- Lemmas on tickets, marks and calls.
pub mod Admission
pub mod Welcomes
pub mod Calls
pub mod Clients
