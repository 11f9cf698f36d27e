pub mod Board
pub mod Draw
pub mod Project
pub mod Steps
