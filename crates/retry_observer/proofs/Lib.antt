pub mod Carrying
pub mod Catching
pub mod Counting
pub mod Following
pub mod Naming
pub mod Sending
pub mod Worlds
