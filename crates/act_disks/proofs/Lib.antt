mod StoreLaws
mod NodeLaws
pub mod NodeRuns
