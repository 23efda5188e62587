-- `FinishCall` has the call's law, `Refused` the promise. Assumes nothing.
pub mod FinishCall
pub mod Refused
