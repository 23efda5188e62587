-- `Finish` is the call as a function on memory, `Promises` what every call promises where it is refused. Assumes nothing.
pub mod Finish
pub mod Promises
