pub mod Causes
pub mod Listening
pub mod Acting
pub mod Serving
pub mod Stacks
pub mod Examples
pub mod TableExamples
