pub mod Bounds
pub mod Tools
pub mod Names
pub mod ToolsFile
pub mod Stock
pub mod FaultNumbers
