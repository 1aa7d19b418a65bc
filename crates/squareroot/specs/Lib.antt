pub mod SquareRoot
pub mod Derivation
