-- What the proofs of several functions use.
pub mod Checks
pub mod Buffer
pub mod Level
pub mod Depths
pub mod Levels
pub mod Whole
pub mod Tree
pub mod Laws
pub mod Parents
