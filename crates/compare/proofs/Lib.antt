-- What the proofs of several functions use; what is promised of comparing is proved in Comparing.
pub mod Comparing
