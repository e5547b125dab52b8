pub mod Lists
pub mod Reaching
pub mod Sorting
pub mod Listing
pub mod Keys
pub mod Turning
