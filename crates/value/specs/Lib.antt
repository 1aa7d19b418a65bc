pub mod Text
pub mod Number
pub mod Words
pub mod Internal
