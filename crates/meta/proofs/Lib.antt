-- What the proofs of several functions use.
pub mod Heads
pub mod Starts
pub mod Tests
