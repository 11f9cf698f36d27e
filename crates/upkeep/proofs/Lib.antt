-- The laws of a change and an append, and what the proofs of several functions use.
pub mod Moves
pub mod Steps
pub mod Keeping
pub mod Taken
pub mod Laws
pub mod Answers
pub mod Worked
