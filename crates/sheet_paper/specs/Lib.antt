pub mod Scales
pub mod Windows
pub mod Spreading
pub mod FigureLines
pub mod Dimensions
