mod Filling
mod Standing
mod Limiting
pub mod SpacedLemmas
