pub mod Keys
pub mod Addresses
pub mod Names
pub mod Entries
pub mod Held
pub mod Configs
pub mod Outcomes
pub mod Examples
