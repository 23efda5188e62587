-- `ByNumber` has what is found for a right number and for a wrong one. Assumes nothing.
pub mod ByNumber
