pub mod Examples
pub mod Headline
pub mod Requests
pub mod Outcomes
