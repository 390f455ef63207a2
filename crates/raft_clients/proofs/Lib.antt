pub mod Answering
pub mod Executing
pub mod Found
pub mod Known
pub mod Listed
pub mod Lookups
pub mod Once
pub mod Views
