pub mod Channels
pub mod Observed
