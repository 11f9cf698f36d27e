-- The laws of the shares, and what the code cites.
pub mod Largest
pub mod Adding
pub mod Giving
pub mod Loops
pub mod Portioning
pub mod Laws
pub mod Padded
pub mod Worked
