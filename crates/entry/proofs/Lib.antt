-- What the proofs of several functions use, and what callers cite.
pub mod Runs
pub mod Cuts
pub mod Digits
pub mod Lines
pub mod TextLines
pub mod ReadBack
