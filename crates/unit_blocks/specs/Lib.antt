pub mod Weaving
pub mod Blocks
pub mod Constraints
pub mod Phases
pub mod Chains
pub mod Entries
pub mod Joining
