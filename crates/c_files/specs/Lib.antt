pub mod Start
pub mod Internal
