-- What the proofs of several functions use, and what callers cite.
pub mod Items
pub mod ByMarks
pub mod Written
pub mod Room
pub mod Reading
pub mod Paging
pub mod Inputs
pub mod FirstBytes
pub mod OneText
pub mod Worked
