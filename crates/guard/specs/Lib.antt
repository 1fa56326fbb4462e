-- What the guard page promises.
pub mod GuardRule
pub mod Guarding
