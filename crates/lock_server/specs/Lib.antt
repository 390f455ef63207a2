pub mod Examples
pub mod Exclusion
pub mod LockLaws
pub mod Locks
