pub mod Upkeep
pub mod Keeping
