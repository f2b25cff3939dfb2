pub mod ActionPlaces
pub mod SetLists
mod WordLengths
pub mod BlockTexts
pub mod MoreRows
mod RowLines
mod WriterKept
mod KeyTexts
mod RowEnds
