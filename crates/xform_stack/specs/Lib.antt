pub mod Following
pub mod Running
pub mod RunningLaws
pub mod RunViews
pub mod SystemLaws
pub mod Systems
