pub mod Explained
pub mod RaftLaws
