-- `Masks` has masks of tables, `Fronts` the stack of fronts, `Ahead` what is read ahead, `Marks` the bytes of a table, `FrontRule`
-- what the functions say of fronts. Assumes nothing.
pub mod Masks
pub mod Fronts
pub mod Ahead
pub mod FrontRule
pub mod Marks
