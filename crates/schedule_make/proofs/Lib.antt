pub mod Chosen
pub mod Allowed
pub mod Following
pub mod Letters
pub mod Offers
pub mod Stepping
pub mod InTurn
