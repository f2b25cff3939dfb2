pub mod Moved
pub mod Moving
pub mod Folds
pub mod Folding
