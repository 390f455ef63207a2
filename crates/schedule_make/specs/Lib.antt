pub mod Candidates
pub mod Examples
pub mod Inputs
pub mod Made
pub mod Allowed
pub mod Flying
pub mod Making
pub mod Offers
