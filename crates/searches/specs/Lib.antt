pub mod Count
pub mod Searches
pub mod Reported
pub mod Limit
pub mod Plain
pub mod Internal
pub mod Samples
