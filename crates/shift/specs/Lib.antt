pub mod Shift
pub mod Internal
pub mod Whole
pub mod Agree
