pub mod Running
pub mod ToldLaws
pub mod Within
pub mod Carrying
pub mod CarryingLaws
pub mod Clusters
pub mod ClusterLaws
pub mod Examples
