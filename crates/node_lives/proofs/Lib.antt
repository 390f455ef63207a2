pub mod Stages
pub mod Sayings
pub mod Turning
pub mod Opening
pub mod Living
pub mod Recording
