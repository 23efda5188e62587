-- `Finding`, `Numbers`, `Scratch` and `Searched` have the laws of both searches. Assumes nothing.
pub mod Finding
pub mod Numbers
pub mod Scratch
pub mod Searched
