-- What the proofs use.
pub mod Digits
