pub mod Each
pub mod Prefixes
pub mod Places
pub mod Options
