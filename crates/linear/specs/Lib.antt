pub mod Mapping
pub mod Answer
pub mod Internal
pub mod Demand3
