pub mod HeightLemmas
pub mod OccursLemmas
pub mod PlaceLemmas
pub mod RowLemmas
pub mod FillLemmas
pub mod ForkLemmas
pub mod CopyLemmas
