pub mod Findings
pub mod Batch
pub mod OneByOne
