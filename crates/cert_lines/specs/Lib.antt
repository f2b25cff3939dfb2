pub mod Lines
pub mod LineReading
pub mod JobLineReading
pub mod Formats
pub mod JobLines
pub mod JobText
pub mod JobFold
pub mod JobTest
