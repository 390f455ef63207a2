mod Fewer
mod Noting
pub mod Linear
