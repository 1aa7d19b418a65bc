pub mod Compared
pub mod Internal
