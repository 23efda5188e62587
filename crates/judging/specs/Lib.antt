-- `Judged` has what the contracts cite, `Verdicts` what the code's answers mean. Assumes nothing.
pub mod Judged
pub mod Verdicts
