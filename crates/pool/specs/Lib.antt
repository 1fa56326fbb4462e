-- What the pool promises.
pub mod Faults
pub mod State
pub mod Tables
pub mod Blocks
pub mod Take
pub mod Release
pub mod Parts
pub mod Model
