pub mod Codes
pub mod MonoCode
pub mod StereoCode
pub mod Samples
pub mod StereoKindLemmas
