pub mod Drawing
pub mod Fingers
pub mod Hazards
pub mod Marked
pub mod Near
pub mod SideArea
pub mod Stations
pub mod Swept
