pub mod Parts
pub mod Read
pub mod Reach
pub mod Held
pub mod Placed
pub mod Routed
pub mod Worked
