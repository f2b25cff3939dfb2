pub mod MatchingRows
