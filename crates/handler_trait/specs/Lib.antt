pub mod Handling
pub mod Facts
pub mod Echo
pub mod EchoLaws
pub mod Examples
