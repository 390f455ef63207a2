pub mod Codes
pub mod Ending
pub mod ReadLaws
pub mod Rounds
pub mod Sound
