-- What the proofs of painting use.
pub mod Laws
