-- What the loops over the strata meet, and the laws of the plan.
pub mod Pieces
pub mod Cuts
pub mod Counting
pub mod Booking
pub mod Padded
pub mod Planning
pub mod Starting
pub mod Laws
pub mod Entries
pub mod Own
pub mod Given
pub mod One
pub mod Worked
