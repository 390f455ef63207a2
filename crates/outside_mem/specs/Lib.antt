pub mod Counts
pub mod Sinks
pub mod Sources
pub mod Examples
