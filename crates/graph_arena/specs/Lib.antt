pub mod Graph
pub mod Changes
pub mod Paths
pub mod Chain
pub mod Flanks
