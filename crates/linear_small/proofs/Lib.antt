-- What the proofs use.
pub mod Roomy
