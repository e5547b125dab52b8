pub mod Capped
pub mod Bounded
pub mod Spaces
pub mod Found
pub mod OptionBounds
pub mod Unasked
