pub mod Asking
mod Entering
mod Faultless
mod Kept
mod Locals
pub mod Numbers
pub mod OnLiterals
pub mod Reading
mod Seen
