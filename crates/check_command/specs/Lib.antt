pub mod CheckAnswer
pub mod Confirmed
