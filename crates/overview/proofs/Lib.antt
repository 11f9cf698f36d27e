-- The laws of the season's sheet, and sheets by computation.
pub mod Short
pub mod Worked
