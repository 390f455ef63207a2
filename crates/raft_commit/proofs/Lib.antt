pub mod Advancing
pub mod Holding
