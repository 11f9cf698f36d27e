-- The loop over the strata, and the laws of the starts.
pub mod Choosing
pub mod Laws
pub mod Worked
