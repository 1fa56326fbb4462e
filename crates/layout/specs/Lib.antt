pub mod Sums
pub mod Lengths
