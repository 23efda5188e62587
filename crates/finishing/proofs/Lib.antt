-- `Sorted` has the sorted tails of a log, `Image` what they make, `Closing` the memory afterwards. Assumes nothing.
pub mod Sorted
pub mod Image
pub mod Closing
