pub mod Say
pub mod Steps
pub mod Draw
pub mod Run
