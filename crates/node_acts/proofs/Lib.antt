pub mod Overs
pub mod Resting
pub mod Helds
pub mod Recording
pub mod StateSaves
pub mod StateOpens
