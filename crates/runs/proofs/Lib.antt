-- Lemmas on shapes, bitmaps and tables of runs.
pub mod Cuts
pub mod Bitmaps
pub mod Places
pub mod Laws
pub mod Requests
