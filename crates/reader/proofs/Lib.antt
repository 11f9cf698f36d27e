-- What the proofs of several functions use.
pub mod Passing
pub mod Second
pub mod Answers
