-- `Program` is the program `places` as document 01 has it, `Parts` the same on the memory of an index and input that comes in
-- parts, `Cited` what the contracts cite besides, `Promises` what holds of all. Assumes nothing.
pub mod Parts
pub mod Cited
pub mod Promises
pub mod Program
