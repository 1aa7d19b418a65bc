pub mod Pixel
pub mod Internal
pub mod Whole
pub mod Quarters
