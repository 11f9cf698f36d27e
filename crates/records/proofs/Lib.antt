-- What the proofs of several functions use, and the laws that readers and parsers cite.
pub mod Judging
pub mod Counting
