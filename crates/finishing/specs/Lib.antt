-- `Steps` has what the steps of finish ask and leave. Assumes nothing.
pub mod Steps
