pub mod Divided
pub mod Steps
