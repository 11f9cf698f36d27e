-- The theorems of the working file, and the laws that the reader and the writer cite.
pub mod Numbers
pub mod Records
pub mod Rules
pub mod Lists
pub mod Growing
pub mod Finding
pub mod Placed
pub mod Stopping
pub mod OneFile
pub mod RoundTrip
pub mod Longest
pub mod Promises
pub mod Held
pub mod Worked
