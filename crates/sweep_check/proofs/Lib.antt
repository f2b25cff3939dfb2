pub mod BoxOrder
pub mod Tests
pub mod Some
pub mod Ascending
pub mod FirstHits
pub mod Orders
pub mod Alike
pub mod Bounds
pub mod AroundLists
pub mod PieceLists
pub mod HitKinds
pub mod KindsOf
pub mod StrokeBoxes
pub mod PoseBoxes
pub mod Sweeps
mod Swept
pub mod HitTests
pub mod Strokes
pub mod Sunk
pub mod SunkLaw
pub mod MotionLaw
mod BackHits
