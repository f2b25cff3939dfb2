pub mod Texts
pub mod Scales
pub mod Spreads
pub mod Areas
