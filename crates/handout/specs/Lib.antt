pub mod Lines
pub mod Handout
pub mod Shows
