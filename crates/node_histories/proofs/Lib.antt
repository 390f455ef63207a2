pub mod Adding
pub mod Growing
pub mod Lists
pub mod Running
pub mod Sending
pub mod Showing
pub mod Stepping
pub mod Translating
