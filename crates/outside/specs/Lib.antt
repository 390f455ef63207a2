pub mod Counting
pub mod Streams
pub mod Wholes
