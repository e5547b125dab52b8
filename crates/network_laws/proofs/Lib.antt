pub mod Duality
pub mod Tightness
pub mod Linking
pub mod PathSums
pub mod Chains
pub mod Naming
pub mod Depths
pub mod Upwards
