pub mod ByNode
pub mod Clusters
pub mod Ended
pub mod More
pub mod Stepping
pub mod Told
