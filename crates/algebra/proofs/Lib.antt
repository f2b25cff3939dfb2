pub mod Laws
pub mod Polynomials
pub mod Ring
pub mod Order
pub mod Widths
pub mod Halves
