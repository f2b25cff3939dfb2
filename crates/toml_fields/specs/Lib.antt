pub mod Document
pub mod Fields
pub mod Lists
pub mod Ranges
pub mod Results
