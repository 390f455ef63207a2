pub mod Accepting
pub mod Terms
