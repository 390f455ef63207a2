mod Refusing
mod Theres
pub mod Items
mod Failing
mod Following
mod Counting
mod Turning
mod Beginning
mod Sending
pub mod Stepping
pub mod Saving
mod CellLaws
mod Bounding
pub mod Wording
