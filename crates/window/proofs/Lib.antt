pub mod Gaps
pub mod Laws
pub mod Formulas
pub mod Monotone
pub mod Bounded
pub mod Cases
