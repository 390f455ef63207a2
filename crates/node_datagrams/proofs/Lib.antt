pub mod Listed
pub mod Sayings
pub mod Stacks
