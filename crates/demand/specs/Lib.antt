-- `Demand` has demand 3, `Shift` lists of calls with stream calls among them, `Numbers` searches for typed numbers. Assumes nothing.
pub mod Demand
pub mod Shift
pub mod Numbers
