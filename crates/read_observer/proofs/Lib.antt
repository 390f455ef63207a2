pub mod Applying
pub mod Checking
pub mod Ended
pub mod Events
pub mod Noting
pub mod Placed
pub mod Sorting
pub mod Unused
