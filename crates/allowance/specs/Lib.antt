pub mod Bounds
pub mod HalfDeduction
pub mod AllowTable
pub mod FaultNumbers
