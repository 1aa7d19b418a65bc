-- What the proofs of several functions use; `Laws` is for callers of the crate.
pub mod Floats
pub mod Laws
pub mod Agree
