pub mod Clusters
pub mod Dropping
pub mod Erasing
pub mod Examples
pub mod ReadRaft
pub mod Reads
