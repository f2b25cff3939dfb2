pub mod Lanes
pub mod Stages
pub mod ActionSets
pub mod Codes
