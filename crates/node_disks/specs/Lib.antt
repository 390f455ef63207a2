pub mod Names
pub mod TrailDisks
pub mod NodeTrails
pub mod Examples
