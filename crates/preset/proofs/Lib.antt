-- Lemmas on the parts of a preset change.
pub mod Voices
pub mod Changes
