-- `Replay` says what a line of a recording is answered. Assumes nothing.
pub mod Replay
