pub mod Bounds
pub mod Machine
pub mod MachineFile
pub mod FaultNumbers
