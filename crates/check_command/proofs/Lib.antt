pub mod Checks
pub mod Confirming
