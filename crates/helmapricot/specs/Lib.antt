-- `Stream` says how a block of a stream is handed over. Assumes nothing.
pub mod Stream
