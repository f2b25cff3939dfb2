pub mod Facts
pub mod Table
pub mod FirstLeft
pub mod LaneFacts
