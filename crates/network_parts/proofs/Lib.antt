pub mod RangeLemmas
pub mod SumLemmas
pub mod PlaceLemmas
pub mod JoinLemmas
pub mod FillLemmas
mod AnswerLemmas
mod NumberLemmas
