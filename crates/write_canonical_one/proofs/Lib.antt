-- What the proofs use.
pub mod Room
