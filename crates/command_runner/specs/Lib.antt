pub mod Kinds
pub mod Answers
pub mod Fetching
pub mod Stops
pub mod Delivery
pub mod Ends
pub mod Reading
pub mod Program
