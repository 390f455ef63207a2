pub mod Spelled
pub mod Permitted
pub mod Outcomes
pub mod Examples
