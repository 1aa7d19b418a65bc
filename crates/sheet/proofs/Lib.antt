-- What the proofs of the sheet use; what is promised of it is proved in Sampling.
pub mod Counts
pub mod Lowest
pub mod Runs
pub mod Scenes
pub mod Frames
pub mod Answers
pub mod Sampling
