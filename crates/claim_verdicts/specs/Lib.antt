pub mod Places
pub mod Clusters
pub mod Marks
pub mod Schedules
pub mod Backups
pub mod Explaining
pub mod Laws
pub mod Comparing
