-- What the proofs of several functions use.
pub mod Counting
pub mod Sums
pub mod Samples
pub mod Limit
pub mod Loops
pub mod After
