pub mod LineWords
pub mod FrontNumbers
pub mod JobWords
pub mod PlanWords
