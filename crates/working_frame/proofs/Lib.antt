pub mod NumberedLemmas
pub mod KeptLemmas
pub mod Growing
pub mod Spanned
pub mod MapLemmas
pub mod PathMoves
pub mod StepMoves
pub mod DrawingMoves
