-- What the proofs use, and the theorems.
pub mod Roots
pub mod Derivation
