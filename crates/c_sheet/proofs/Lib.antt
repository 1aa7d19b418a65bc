-- What the proofs of several functions, and of `cabi`, use.
pub mod Fits
mod Put
