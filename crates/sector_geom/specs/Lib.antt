pub mod Plane
pub mod Motion
pub mod Pieces
pub mod Corners
pub mod Covers
pub mod Clear
pub mod Free
pub mod SpecialPoints
