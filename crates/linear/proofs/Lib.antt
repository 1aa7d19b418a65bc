-- What the proofs of several functions use, and demand 3.
pub mod Laws
pub mod Maps
pub mod Accepted
pub mod Answers
pub mod Demand3
