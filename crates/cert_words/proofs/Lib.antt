pub mod Numbers
pub mod Names
pub mod NumberLists
pub mod FrontNumbers
pub mod NumberWords
