pub mod LinesFit
pub mod PlanReading
pub mod Facts
pub mod Items
pub mod PlanItem
pub mod Reading
pub mod NoteLines
