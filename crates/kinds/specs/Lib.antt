-- `Kinds` has the table of kinds, `KindPromises` what holds of it. Assumes nothing.
pub mod Kinds
pub mod KindPromises
