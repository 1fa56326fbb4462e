-- Lemmas on pools, over tables alone.
pub mod Packed
pub mod Rows
pub mod Steps
