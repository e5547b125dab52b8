pub mod Boxes
pub mod Walk
pub mod Packed
pub mod Squareness
pub mod Spaced
