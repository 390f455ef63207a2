pub mod CheckedLaws
pub mod Examples
pub mod Observed
pub mod Pairs
