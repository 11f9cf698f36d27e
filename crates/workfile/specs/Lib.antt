pub mod Numbers
pub mod Content
pub mod Decode
pub mod Rules
pub mod Promises
