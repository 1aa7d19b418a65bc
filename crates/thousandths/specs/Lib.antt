pub mod Number
pub mod Rule30
pub mod Step6
pub mod Kept
