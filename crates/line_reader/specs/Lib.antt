pub mod Slices
pub mod Lines
pub mod Readers
pub mod Filling
pub mod Outcomes
pub mod Whys
pub mod Examples
