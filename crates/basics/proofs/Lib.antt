-- What the proofs of several crates use.
pub mod Tests
pub mod Lists
pub mod Bytes
pub mod Promised
pub mod Forms
