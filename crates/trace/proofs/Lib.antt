-- The proof of the law.
pub mod Promises
pub mod Memories
pub mod Verdicts
pub mod Loans
pub mod Ties
pub mod Runs
pub mod Rules
pub mod Sequences
