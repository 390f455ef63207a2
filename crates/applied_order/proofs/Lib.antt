pub mod Adding
pub mod CatchingUp
