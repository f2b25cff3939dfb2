pub mod Lists
pub mod Faces
pub mod Tools
pub mod Turns
pub mod Reasons
