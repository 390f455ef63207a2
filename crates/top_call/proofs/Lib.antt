pub mod Headlines
pub mod Untaken
