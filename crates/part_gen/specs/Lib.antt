pub mod Draws
pub mod CommonSetup
pub mod Generator
pub mod Steps
