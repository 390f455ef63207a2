pub mod Flights
pub mod Trees
pub mod TreeFalls
pub mod Turns
