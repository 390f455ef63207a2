pub mod Stores
pub mod Trees
