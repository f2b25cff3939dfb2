pub mod RowWords
pub mod Notes
pub mod Blocks
pub mod Writer
