-- What the loops over the strata meet, after the starts.
pub mod Underway
pub mod Marking
pub mod Walking
pub mod Totalling
pub mod Laws
pub mod Changed
pub mod One
pub mod Worked
