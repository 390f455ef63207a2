pub mod Marked
pub mod Members
pub mod NumberSetLaws
