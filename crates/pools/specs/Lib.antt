-- What the clients of pools promise.
pub mod Again
pub mod Edges
