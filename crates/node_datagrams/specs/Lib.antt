pub mod Configured
pub mod Saying
pub mod Examples
