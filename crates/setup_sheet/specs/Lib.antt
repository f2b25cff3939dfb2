pub mod Sheets
pub mod Coordinates
pub mod OrderSheet
