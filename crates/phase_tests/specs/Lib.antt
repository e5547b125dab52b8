pub mod DoubledFork
