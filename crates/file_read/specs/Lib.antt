pub mod Part
pub mod ReadFile
