pub mod Written
pub mod Internal
pub mod Answer
