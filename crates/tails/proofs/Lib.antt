-- The trie of sorted tails is the trie by arrival.
pub mod High
pub mod Compare
pub mod Keep
pub mod Runs
pub mod Groups
pub mod Entries
pub mod Arrivals
pub mod ByArrival
pub mod Children
pub mod Grouped
pub mod Finished
pub mod Budget
