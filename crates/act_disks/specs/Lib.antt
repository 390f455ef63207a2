pub mod Stores
pub mod NodeStores
pub mod NodeLaws
pub mod Examples
