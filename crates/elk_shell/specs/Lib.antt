pub mod Asked
pub mod Line
pub mod Once
pub mod Replies
