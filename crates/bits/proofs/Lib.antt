-- What callers cite.
pub mod Marks
pub mod Lists
pub mod Writing
