pub mod Internal
pub mod ShowFile
