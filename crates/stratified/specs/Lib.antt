pub mod Marks
pub mod Projection
