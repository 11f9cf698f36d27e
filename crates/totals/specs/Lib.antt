pub mod Summary
pub mod Lookup
pub mod Comparison
pub mod Agreement
