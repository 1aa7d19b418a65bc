-- What the proofs of several functions use, and the theorems over the definitions.
pub mod After
pub mod FrameRules
pub mod First
pub mod Loops
pub mod Possible
pub mod Demand2
