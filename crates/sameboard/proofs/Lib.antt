pub mod Stops
pub mod Marks
pub mod Sums
pub mod Theorem
