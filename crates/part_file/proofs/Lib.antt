pub mod Fit
pub mod FitPart
pub mod Joints
pub mod PartRules
pub mod RowData
pub mod Walks
