pub mod Fault
pub mod Header
pub mod Reading
pub mod Answer
pub mod Internal
pub mod Tree
pub mod Parents
