-- What the proofs of `cabi` use.
pub mod Fits
