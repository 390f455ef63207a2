pub mod Places
pub mod Observed
