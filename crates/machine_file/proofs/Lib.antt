pub mod Decided
pub mod Fit
pub mod FitMachine
