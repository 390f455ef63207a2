pub mod Opening
pub mod Saving
pub mod SavingLaws
pub mod PatchLaws
pub mod Turns
pub mod TurnLaws
pub mod Examples
