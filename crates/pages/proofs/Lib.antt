-- Lemmas that the proofs of this crate and of those above it share.
pub mod Made
pub mod SameRules
pub mod Refusals
