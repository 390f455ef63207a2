pub mod Numbering
pub mod NumberingLaws
