-- The lines as the loops write them, and the laws of the sheet.
pub mod Short
pub mod Written
pub mod Loops
pub mod Seeking
pub mod Composing
pub mod Showing
pub mod Printing
pub mod Worked
pub mod Laws
pub mod Marks
