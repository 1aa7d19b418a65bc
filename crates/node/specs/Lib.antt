pub mod Nodes
pub mod Find
pub mod Internal
pub mod Length
