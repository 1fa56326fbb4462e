pub mod Keeping
pub mod Loans
pub mod Rooms
pub mod Parts
mod Told
