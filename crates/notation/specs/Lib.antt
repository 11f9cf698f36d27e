pub mod Contents
pub mod Parse
pub mod Steps
