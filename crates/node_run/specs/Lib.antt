pub mod Settings
pub mod Events
pub mod Saying
pub mod Runs
pub mod Examples
