pub mod FaceZero
pub mod Kept
pub mod LeastRects
pub mod Lines
mod MovingRects
mod NearPoints
mod NearSwept
mod NearViews
pub mod Numbers
pub mod Poses
mod Reach
