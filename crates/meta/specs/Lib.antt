pub mod Meta
pub mod Internal
