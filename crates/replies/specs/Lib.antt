-- `Written` has what is written to an output, `Outputs` the same of the code's outputs, `Replies` the bytes of several replies. Assumes nothing.
pub mod Written
pub mod Outputs
pub mod Replies
