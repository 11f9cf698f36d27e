pub mod Confidence
pub mod Line
