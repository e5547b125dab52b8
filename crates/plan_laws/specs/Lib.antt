pub mod Chained
pub mod Crossed
pub mod Joins
pub mod Lawful
pub mod MoreExamples
pub mod Nearness
pub mod Routes
