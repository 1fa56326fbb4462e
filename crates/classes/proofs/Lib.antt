pub mod Sizes
pub mod Requests
