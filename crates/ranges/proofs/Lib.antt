-- What the proofs of the tables use.
pub mod Reach
pub mod Tables
pub mod Items
