-- What the proofs of several goals use.
pub mod Shown
