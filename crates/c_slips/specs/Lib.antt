pub mod Slips
pub mod Internal
