-- What the proofs of several functions use, and what callers cite.
pub mod Decimals
pub mod Writing
pub mod Lengths
pub mod Worked
