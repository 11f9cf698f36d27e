-- What the proofs of several functions use, and worked cases.
pub mod Parts
pub mod Lengths
pub mod Worked
