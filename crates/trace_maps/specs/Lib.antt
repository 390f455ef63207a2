pub mod Following
pub mod SingleNode
pub mod Modest
