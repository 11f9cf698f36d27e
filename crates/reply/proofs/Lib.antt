-- What the proofs of several functions use, and what callers cite.
pub mod Replying
pub mod Laws
pub mod Worked
