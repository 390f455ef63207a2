pub mod Views
pub mod Placing
pub mod HandingOn
pub mod PeerFacts
pub mod Carried
pub mod Steps
pub mod Explained
pub mod Lookups
