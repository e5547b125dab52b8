pub mod Order
pub mod Ways
pub mod Reversed
pub mod Search
