pub mod Rewritten
pub mod Internal
