-- Lemmas on a pool's runs, over tables alone.
pub mod States
pub mod Lending
pub mod Returns
pub mod Sound
pub mod Loaned
pub mod Reuse
pub mod Regrant
pub mod SameRule
pub mod Lifetime
