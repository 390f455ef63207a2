pub mod Examples
pub mod Orders
pub mod Runs
pub mod Safety
