-- Lemmas of the clients.
pub mod Lands
pub mod BuddyEdge
pub mod GuardEdge
