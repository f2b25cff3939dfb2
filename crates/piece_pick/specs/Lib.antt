pub mod Stock
pub mod Choice
pub mod Search
pub mod Grid
