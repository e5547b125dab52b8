pub mod CrossedNets
pub mod Crossing
