-- `Inside`, `Carried` and `Counted` lead to the promises in `Image`; `Chunks`, `Nodes` and `Root` serve the functions. Assumes nothing.
pub mod Inside
pub mod Carried
pub mod Counted
pub mod Image
pub mod Chunks
pub mod Nodes
pub mod Root
