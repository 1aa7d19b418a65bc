pub mod Host
pub mod Internal
