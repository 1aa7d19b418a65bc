pub mod Slip
pub mod Version1
pub mod Slips
