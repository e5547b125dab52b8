pub mod Values
pub mod PaddingText
pub mod Names
pub mod Table
pub mod Reading
pub mod Laws
