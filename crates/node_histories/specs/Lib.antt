pub mod Examples
pub mod Histories
pub mod HistoryLaws
pub mod Translations
pub mod ViewLaws
pub mod Views
