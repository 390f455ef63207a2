pub mod Doing
pub mod InRange
pub mod Keeping
pub mod Lengths
pub mod Sounding
