pub mod Dropping
pub mod Headings
pub mod PuttingBefore
pub mod Gathering
pub mod TraceExample
