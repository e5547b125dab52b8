pub mod Clearance
pub mod Ranges
pub mod Segments
pub mod Shapes
