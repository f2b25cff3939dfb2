pub mod Texts
mod Shortest
