-- `Replying` has the laws of replies in an output, `Blocks` and `Finding` those of the forms, `LineForms` that of a line. Assumes
-- nothing.
pub mod Replying
pub mod Blocks
pub mod Finding
pub mod LineForms
