-- What a rack promises.
pub mod Limits
pub mod Faults
pub mod Turns
pub mod Verbs
pub mod Lines
pub mod Holds
pub mod Model
pub mod Parts
pub mod Views
