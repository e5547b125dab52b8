pub mod Duality
pub mod Held
pub mod Rotating
pub mod Frames
