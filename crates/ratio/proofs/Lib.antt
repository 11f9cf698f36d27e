-- What the proof of the comparison cites, and the order that it gives.
pub mod Steps
pub mod Laws
pub mod Worked
