-- What the proofs of several functions use; `Laws` is for callers of the crate.
pub mod Division
pub mod Laws
pub mod Places
pub mod Blend
pub mod Quarters
