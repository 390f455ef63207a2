pub mod Clusters
pub mod Explaining
pub mod Keeping
pub mod Parting
pub mod Storing
