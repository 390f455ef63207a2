pub mod Applied
pub mod Examples
pub mod Mirrors
pub mod Runs
pub mod Safety
