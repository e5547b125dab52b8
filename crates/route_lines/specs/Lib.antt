pub mod Tidied
pub mod Points
pub mod Waypoints
pub mod Path
