-- laws on the definitions alone
pub mod Entries
pub mod Paths
-- from the bytes of a node to the trie
pub mod Facts
pub mod Here
pub mod Root
-- for the code
pub mod Parts
