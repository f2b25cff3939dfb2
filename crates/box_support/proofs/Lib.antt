pub mod Paths
pub mod PathBends
pub mod Elements
pub mod Groups
pub mod Boxes
pub mod ReasonNumbers
pub mod Sets
