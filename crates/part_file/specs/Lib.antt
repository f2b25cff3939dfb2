pub mod Bounds
pub mod Part
pub mod Rules
pub mod Rows
pub mod PartFile
pub mod FaultNumbers
