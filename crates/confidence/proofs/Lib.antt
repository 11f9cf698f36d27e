-- How the statement is written, what is answered to a line, and document 000's case.
pub mod Writing
pub mod Asking
pub mod Worked
