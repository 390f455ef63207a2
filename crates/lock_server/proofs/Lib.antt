pub mod Counting
pub mod KeepingOut
pub mod Exclusion
