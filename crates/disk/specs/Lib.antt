pub mod Acts
pub mod Areas
pub mod Disk
pub mod Between
pub mod DiskLaws
pub mod Images
pub mod Examples
