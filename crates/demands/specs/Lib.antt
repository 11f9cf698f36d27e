pub mod Starts
pub mod Demand3
pub mod Strata
pub mod Practice
pub mod MoreError
pub mod Findings
pub mod WholeRow
pub mod MoreErrorStrata
