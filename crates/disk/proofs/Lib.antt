pub mod Becoming
pub mod Untouched
pub mod Between
pub mod CutShort
pub mod Disks
pub mod Failing
pub mod Imaging
