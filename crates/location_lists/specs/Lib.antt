-- `Lists` says what a buffer of lists holds, `Steps` what stepping over a location makes of it. Assumes nothing.
pub mod Lists
pub mod Steps
