-- What the proofs use.
pub mod Room
pub mod Places
