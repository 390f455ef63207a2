pub mod Found
pub mod Clusters
pub mod ReadActs
pub mod Fitting
pub mod Explaining
pub mod Playing
pub mod Headed
