-- What the proofs of several functions use, and what callers cite.
pub mod Taking
pub mod Passing
pub mod Filling
pub mod Answers
pub mod Laws
pub mod Held
pub mod Worked
