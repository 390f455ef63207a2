pub mod Backup
pub mod BackupLaws
pub mod Examples
pub mod Followed
