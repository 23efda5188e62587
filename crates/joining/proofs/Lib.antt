-- `Each` has the members of `joins_each`, `Search` the locations by their address, `Joining` what one location or place adds, `Lists` what lists of them add. Assumes nothing.
pub mod Each
pub mod Search
pub mod Joining
pub mod Lists
