pub mod NameViews
pub mod RaftTextLaws
pub mod RaftTexts
