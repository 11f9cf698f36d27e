-- What the proofs of several functions use, and what callers cite.
pub mod Worked
pub mod Rules
pub mod Posting
pub mod Pairs
pub mod Answers
pub mod Batches
pub mod Standing
pub mod Stopping
pub mod OneByOne
pub mod Laws
