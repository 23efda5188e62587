-- `Stream` has what recording a stream answers and leaves, `Progress` the same block by block before the header is written,
-- `Answers` what the code's answers mean, `Promises` what a reader may conclude. Assumes nothing.
pub mod Stream
pub mod Progress
pub mod Answers
pub mod Promises
