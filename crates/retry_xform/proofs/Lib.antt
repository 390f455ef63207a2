pub mod Entries
pub mod Numbers
pub mod Names
pub mod Carrying
pub mod Following
pub mod Simulation
