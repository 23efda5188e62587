-- `Parts` and `Tables` are a node and its children in place, `Bounds` what the code asks of them, `Here` ties them to a trie, `Answers` says what the code's answers mean.
pub mod Parts
pub mod Tables
pub mod Bounds
pub mod Here
pub mod Answers
