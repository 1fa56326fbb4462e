-- What the buddy supply promises.
pub mod Reserve
pub mod BuddyRule
pub mod Reserves
pub mod Powers
