pub mod Texts
pub mod Reading
pub mod ReadDecimals
pub mod Filling
