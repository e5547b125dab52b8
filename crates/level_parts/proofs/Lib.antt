pub mod GroupLemmas
pub mod PartLemmas
pub mod LevelLemmas
pub mod EndLemmas
pub mod SameLemmas
pub mod SplitLemmas
