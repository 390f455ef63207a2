pub mod ActKinds
pub mod Folds
pub mod Ended
pub mod Growing
pub mod Turning
pub mod Leaving
pub mod Saved
pub mod Waiting
