pub mod Trails
pub mod OldSlots
