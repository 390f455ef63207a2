pub mod Lives
pub mod LifeDeeds
pub mod LifeLaws
pub mod Examples
