-- What the proofs of several functions use, and what callers cite.
pub mod Testing
pub mod Counting
pub mod Standing
pub mod Laws
pub mod Worked
