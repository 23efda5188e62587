-- `Parts` is a node in place, `OneNode` what the functions say of one. Assumes nothing.
pub mod Parts
pub mod OneNode
