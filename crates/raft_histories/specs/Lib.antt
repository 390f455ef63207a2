pub mod Claims
pub mod Histories
pub mod HistoryExamples
pub mod Prefixes
