-- How the line is written, and worked ones.
pub mod Writing
pub mod Worked
