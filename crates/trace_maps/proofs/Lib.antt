pub mod Follows
pub mod Sees
pub mod Alone
