pub mod Examples
pub mod Executed
pub mod Executions
pub mod Sessions
