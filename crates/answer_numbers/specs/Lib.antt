-- `Counts` says how a row count is handed over, `Numbered` what answers with plain numbers mean. Assumes nothing.
pub mod Counts
pub mod Numbered
