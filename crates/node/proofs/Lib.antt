-- What the proofs of several functions, and of the crates above, use.
pub mod Laws
pub mod Walks
pub mod Asked
pub mod Halves
pub mod After
pub mod Length
pub mod Tests
