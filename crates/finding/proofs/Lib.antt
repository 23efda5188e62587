-- `FindCall` has what is found by nodes and by pieces and as a caller sees it, `Calling` what a search is asked and answers.
-- Assumes nothing.
pub mod FindCall
pub mod Calling
