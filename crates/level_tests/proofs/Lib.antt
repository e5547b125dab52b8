pub mod ChainedDrawn
pub mod RotatingLemmas
pub mod SmallLevels
