-- What the proofs of the functions use, and what callers cite.
pub mod Accepted
pub mod Following
pub mod Laws
