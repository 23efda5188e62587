-- A law for each step of the code; numbers, bytes and whole lines, read and written; then each way out of the reader. Assumes nothing.
pub mod Words
pub mod Numbers
pub mod Bytes
pub mod Lines
pub mod Ways
pub mod Reading
pub mod Examples
