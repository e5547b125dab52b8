pub mod State
pub mod Labels
pub mod Search
pub mod Rounds
pub mod Queue
pub mod Searching
pub mod Augmented
pub mod Start
