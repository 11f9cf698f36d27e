-- The proof that no contract leaves freedom.
mod Strata
mod Totals
pub mod Unique
