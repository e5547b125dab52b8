pub mod Answers
pub mod Divided
pub mod Dividing
pub mod Solved
