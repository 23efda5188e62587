pub mod Tails
pub mod Groups
pub mod Weights
pub mod Runs
