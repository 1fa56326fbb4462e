pub mod Limits
pub mod Rule
pub mod Long
pub mod Blocks
pub mod Exports
