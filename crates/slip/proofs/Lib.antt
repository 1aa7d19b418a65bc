-- What the proofs of several functions use, and the theorems.
pub mod Laws
pub mod Slips
