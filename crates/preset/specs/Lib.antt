-- What a preset change promises.
pub mod Change
pub mod Steps
