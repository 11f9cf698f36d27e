pub mod Strata
pub mod Starts
pub mod Steps
