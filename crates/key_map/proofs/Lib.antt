pub mod Lookups
pub mod Views
