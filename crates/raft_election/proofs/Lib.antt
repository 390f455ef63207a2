pub mod Sets
pub mod Terms
