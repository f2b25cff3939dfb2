pub mod Views
pub mod Hiding
pub mod Orders
