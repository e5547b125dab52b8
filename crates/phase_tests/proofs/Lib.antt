pub mod ThreeValues
pub mod DoubledForks
