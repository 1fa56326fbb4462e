-- What the clients of supplies promise.
pub mod Again
pub mod Edges
