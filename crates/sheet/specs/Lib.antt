pub mod Sheet
pub mod Answer
pub mod Sampling
pub mod Internal
