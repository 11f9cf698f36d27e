-- What the proofs of several functions use, and what callers cite.
pub mod Marks
pub mod Collecting
pub mod Judging
