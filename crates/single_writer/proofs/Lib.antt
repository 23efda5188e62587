-- `Sized` says how long parts of an image are, `Orders` and `Places` in which order children stand and are written, `NodeLists` and `NodeHead` have
-- the lists and what stands in front of a table, `WholeNode` a node, `SingleNode` and `SingleChain` the nodes of a single tail. Assumes nothing.
pub mod Sized
pub mod Orders
pub mod Places
pub mod NodeLists
pub mod NodeHead
pub mod SingleNode
pub mod WholeNode
pub mod SingleChain
