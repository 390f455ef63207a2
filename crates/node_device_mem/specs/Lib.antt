pub mod MemoryAreas
pub mod MemoryDisks
pub mod Histories
pub mod MemoryTrails
pub mod Devices
pub mod Scripts
pub mod MemoryDevices
pub mod Examples
