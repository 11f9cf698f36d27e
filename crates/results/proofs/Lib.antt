-- What the proofs of several functions use, and worked cases.
pub mod Refused
pub mod Handed
mod Rows
mod Shown
pub mod Worked
