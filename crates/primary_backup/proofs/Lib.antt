pub mod Flying
pub mod Seen
pub mod Backing
