pub mod Examples
pub mod Kv
pub mod Reading
