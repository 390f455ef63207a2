pub mod Growth
pub mod GrowthLaws
pub mod Examples
