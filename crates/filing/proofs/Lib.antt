-- The laws of files in a row.
pub mod Rows
pub mod Laws
