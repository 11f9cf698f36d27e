-- The proofs of what is shown across the steps.
pub mod Sums
pub mod Fair
pub mod Demand3
pub mod Strata
pub mod Worked
pub mod Practice
pub mod MoreError
pub mod Passing
pub mod Findings
pub mod WholeRow
pub mod MoreErrorStrata
