pub mod Ranks
pub mod Counts
pub mod Trees
pub mod Queueing
pub mod Turning
