pub mod Bind
pub mod Decided
pub mod Each
pub mod Firsts
pub mod Integers
pub mod Sizes
pub mod Utf8
