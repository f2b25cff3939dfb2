pub mod Tables
pub mod FitSetups
pub mod Bare
pub mod MadeStages
pub mod ToolPlaces
pub mod Choices
pub mod Fitted
