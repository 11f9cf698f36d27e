-- What the proofs of several functions use, and the laws that the reader and the parser of a text cite.
pub mod Placing
pub mod Holding
