-- Runs of records, the result and what it keeps, and how the code's parts meet.
pub mod Runs
pub mod Result
mod Found
mod Answers
pub mod Laws
pub mod Worked
