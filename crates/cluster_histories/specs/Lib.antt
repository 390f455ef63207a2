pub mod Alone
pub mod ClusterLaws
pub mod DeedLaws
pub mod Deeds
pub mod Examples
pub mod MoveLaws
pub mod Moves
