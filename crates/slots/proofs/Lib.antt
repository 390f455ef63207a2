pub mod Elsewhere
pub mod Images
pub mod Saves
pub mod Opens
pub mod Turning
pub mod Patching
pub mod Worked
