pub mod Tally
pub mod Add
pub mod Figures
