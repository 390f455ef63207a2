pub mod Dropping
pub mod Erasing
pub mod Quiet
