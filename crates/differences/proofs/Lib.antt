-- What the proofs of several functions, and of `compare`, use.
pub mod Places
