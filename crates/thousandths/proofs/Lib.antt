pub mod Numbers
pub mod Levels
pub mod Rules
pub mod Pictures
pub mod Kept
