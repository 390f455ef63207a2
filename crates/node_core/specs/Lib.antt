pub mod Replicas
pub mod Examples
