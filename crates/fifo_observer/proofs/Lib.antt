pub mod Counting
pub mod Following
pub mod Giving
pub mod Numbers
pub mod Worlds
