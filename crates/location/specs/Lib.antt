-- `Plain` gives the code's types their meaning, `Fits` says what 24 bytes can hold. Assumes nothing.
pub mod Plain
pub mod Fits
