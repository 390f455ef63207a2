pub mod Moving
pub mod Told
pub mod WorldInBytes
pub mod WorldOnBytes
pub mod Owned
