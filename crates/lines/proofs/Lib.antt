-- What the proofs of several functions use, and what callers cite.
pub mod Beside
pub mod Writing
pub mod Answer
pub mod Laws
pub mod Worked
