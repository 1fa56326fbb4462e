-- The law over whole runs of a rack's calls.
pub mod Steps
pub mod Book
pub mod History
pub mod Law
pub mod Words
