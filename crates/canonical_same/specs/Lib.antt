pub mod Answers
pub mod Canonical
