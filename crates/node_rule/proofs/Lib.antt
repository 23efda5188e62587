-- `Tables` goes along the entries of a table, `Parts` from a node in place to its parts; `Owed`, `TwoLists`, `Children` and `Nodes`
-- have the laws of one node. Assumes nothing.
pub mod Tables
pub mod Parts
pub mod Owed
pub mod TwoLists
pub mod Children
pub mod Nodes
