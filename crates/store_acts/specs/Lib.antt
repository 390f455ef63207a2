pub mod StoreActs
pub mod PendingAreas
pub mod Examples
