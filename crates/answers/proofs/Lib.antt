-- What the proofs of the functions use.
mod Texts
