pub mod Costs
pub mod Cheapest
pub mod Tested
