pub mod Bounds
pub mod Setups
pub mod SetupsFile
pub mod FaultNumbers
pub mod Wanted
pub mod Fitting
pub mod Best
