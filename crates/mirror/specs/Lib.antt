pub mod Mirroring
pub mod MirrorLaws
pub mod Prefix
