pub mod OnLiterals
pub mod Keying
pub mod Spelling
pub mod Fitting
pub mod Fills
pub mod Texts
pub mod Listing
pub mod Making
