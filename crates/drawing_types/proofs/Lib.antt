pub mod SameShapes
pub mod SegmentBounds
pub mod SmallNumbers
