pub mod Exchanging
pub mod Reaching
pub mod Tearing
pub mod Trails
