-- The laws of the summary, and what the proofs of several functions use.
pub mod Shapes
pub mod Loops
pub mod Operations
pub mod Agreeing
pub mod Holding
pub mod Laws
pub mod Checking
pub mod Answers
pub mod Worked
