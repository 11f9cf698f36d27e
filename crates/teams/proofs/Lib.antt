-- What the proofs of several functions use, and what callers cite.
pub mod Marking
pub mod Answer
pub mod Plain
pub mod Own
pub mod Laws
pub mod Apart
pub mod Worked
