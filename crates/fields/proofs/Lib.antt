-- `Passed` has what `?` passes on, `Singles` laws of runs, `Tables` a table by its kind's number. Assumes nothing.
pub mod Passed
pub mod Singles
pub mod Tables
