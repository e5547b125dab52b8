-- The choices of a level.
pub mod Choices
