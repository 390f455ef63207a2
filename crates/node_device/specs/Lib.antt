pub mod Faults
pub mod Wants
pub mod Telling
pub mod Outcomes
pub mod Examples
