pub mod Stores
pub mod StateActs
pub mod StateLaws
pub mod Examples
