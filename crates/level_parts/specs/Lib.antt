pub mod Parts
pub mod Divided
pub mod Groups
pub mod Split
pub mod Laws
pub mod Examples
