-- `KindRule` has the rule of the table. Assumes nothing.
pub mod KindRule
