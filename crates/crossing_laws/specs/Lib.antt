pub mod Crossed
pub mod Drawn
