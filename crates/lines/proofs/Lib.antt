-- What the proofs of the lines use.
pub mod Lists
pub mod Laws
