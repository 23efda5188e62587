-- `Held` says what an inspection's answer means. Assumes nothing.
pub mod Held
