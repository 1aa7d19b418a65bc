pub mod Differences
pub mod Internal
