-- `Places` has where locations stand in memory, `Line` the locations of a line. Assumes nothing.
pub mod Places
pub mod Line
