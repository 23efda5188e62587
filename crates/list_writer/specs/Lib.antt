-- `Written` says what the code leaves of a list, step by step. Assumes nothing.
pub mod Written
