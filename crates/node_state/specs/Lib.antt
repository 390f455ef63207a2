pub mod Calls
pub mod Fronts
pub mod Ends
pub mod Changes
pub mod Crashes
pub mod Answers
pub mod Examples
