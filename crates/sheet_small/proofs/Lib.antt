-- What the proof of `sheet_small` uses.
pub mod Roomy
