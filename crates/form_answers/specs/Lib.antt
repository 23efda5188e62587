-- `Memory` is the program `places` on the memory of an index, `Answered` what the contracts cite besides. Assumes nothing.
pub mod Memory
pub mod Answered
