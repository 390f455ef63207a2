pub mod Records
pub mod RecordLaws
pub mod Moments
pub mod MomentLaws
pub mod Examples
