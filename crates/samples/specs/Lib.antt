pub mod Objects
pub mod Samples
