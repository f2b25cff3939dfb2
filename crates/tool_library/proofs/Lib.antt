pub mod Sizes
pub mod Decided
pub mod Collected
pub mod Repeats
