pub mod Chains
pub mod Layers
pub mod Spans
pub mod Growing
