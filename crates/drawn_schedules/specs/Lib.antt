pub mod Drawing
pub mod Endings
pub mod Examples
pub mod Telling
pub mod TellingLaws
