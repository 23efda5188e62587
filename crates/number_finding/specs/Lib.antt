-- `FindNumber` has what a search for a typed number finds in a memory. Assumes nothing.
pub mod FindNumber
