pub mod Events
pub mod Nodes
pub mod Runs
pub mod Safety
pub mod Stories
