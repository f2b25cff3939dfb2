pub mod Projection
pub mod Painting
