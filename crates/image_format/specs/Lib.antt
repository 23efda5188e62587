-- `Image` has the bytes of a trie, `Reading` how bytes are read in layout order, `Held` the trie that an image holds, `Check` the one verdict on an image, `Savable`
-- which tries can be saved, `Turns` and `Entries` what tables are asked, `Promises` what a reader may conclude. Assumes nothing.
pub mod Image
pub mod Reading
pub mod Held
pub mod Savable
pub mod Promises
pub mod Turns
pub mod Entries
pub mod Check
