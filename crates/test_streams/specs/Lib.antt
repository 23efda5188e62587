-- `Step` says where a step leads. Assumes nothing.
pub mod Step
