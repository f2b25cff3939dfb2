pub mod Rose
pub mod Meanings
pub mod Pieces
pub mod MemShelfState
pub mod MemSinkState
