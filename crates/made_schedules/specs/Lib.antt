pub mod Examples
pub mod MadeLines
pub mod Makes
pub mod MadeTexts
pub mod Making
pub mod Sends
pub mod Texts
