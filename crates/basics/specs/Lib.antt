pub mod Bytes
pub mod Lists
pub mod Vr
pub mod Tags
pub mod Limits
pub mod Fields
pub mod Internal
