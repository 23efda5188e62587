-- `Progress` has the loop over the paths, `Laying` that over the ends. Assumes nothing.
pub mod Progress
pub mod Laying
