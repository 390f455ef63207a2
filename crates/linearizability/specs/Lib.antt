pub mod Examples
pub mod Linearizable
