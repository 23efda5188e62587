-- What each test tells of the memory. Assumes nothing.
pub mod Facts
