pub mod Cutting
pub mod Lasts
pub mod Lining
pub mod Taking
pub mod Using
