pub mod Judging
pub mod Internal
pub mod Possible
pub mod Demand2
