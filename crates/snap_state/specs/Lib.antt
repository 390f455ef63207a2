pub mod Tables
pub mod TableLaws
pub mod States
pub mod StateLaws
pub mod KvLaws
