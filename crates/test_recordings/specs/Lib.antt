-- `Handed` has what the contract of `search` cites, `Counting` what that of `count_up` does. Assumes nothing.
pub mod Counting
pub mod Handed
