pub mod Commits
pub mod Ending
pub mod Fronts
pub mod Keeping
