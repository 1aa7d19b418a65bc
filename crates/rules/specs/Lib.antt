pub mod Root
pub mod Frame
pub mod Mask
pub mod Pixels
pub mod Intensity
pub mod All
