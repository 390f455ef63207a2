pub mod AskedNodes
pub mod CommandSet
