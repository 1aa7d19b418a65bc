-- What the proof of `compare_small` uses.
pub mod Buffers
