pub mod Going
pub mod Turns
pub mod Halting
pub mod Worked
