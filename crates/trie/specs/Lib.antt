pub mod Trie
pub mod Rule
pub mod Local
pub mod Test
pub mod Build
pub mod Find
pub mod Promises
pub mod Example
