pub mod LogTerms
pub mod Majorities
