pub mod Supports
pub mod ReasonSupport
pub mod NamedBoxes
pub mod Posed
pub mod Truth
pub mod Growth
pub mod Refuting
pub mod Told
