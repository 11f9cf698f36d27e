-- What the proofs of several functions use.
pub mod Laying
pub mod Rows
pub mod Answers
