-- What the proofs of several functions use; `Laws` is for callers of the crate.
pub mod Trimming
pub mod Parts
pub mod Runs
pub mod Forms
pub mod Powers
pub mod Laws
