pub mod FirstReasons
pub mod Pieces
pub mod Hits
pub mod Along
pub mod Around
pub mod SunkLaw
pub mod MotionFree
