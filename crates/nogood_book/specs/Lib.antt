pub mod Support
pub mod Nogood
pub mod Book
pub mod Refuted
