-- The laws of both tables, and what the proofs of their functions stand on.
pub mod Cases
pub mod Places
pub mod Order
pub mod Chance
pub mod Falling
pub mod Computing
pub mod Least
pub mod Whole
pub mod Within
pub mod Answers
pub mod Worked
