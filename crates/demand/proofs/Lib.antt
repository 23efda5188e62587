-- `Follow` and `Following`: the memory follows the recording; `SavedTrie`, `ReadFinished`: what finish leaves is read back;
-- `Demand` and `Theorem`: demand 3; `Shift`: stream calls among the calls; `Numbers`: typed numbers. Assumes nothing.
pub mod Follow
pub mod Demand
pub mod SavedTrie
pub mod ReadFinished
pub mod Theorem
pub mod Following
pub mod Shift
pub mod Numbers
