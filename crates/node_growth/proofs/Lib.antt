pub mod Agreeing
pub mod Becoming
pub mod Leaving
pub mod Growing
pub mod Hearing
