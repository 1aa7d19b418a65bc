pub mod Answer
pub mod Comparing
