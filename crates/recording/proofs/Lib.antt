-- `Cut`, `Pieces`: the pieces of a block; `Recording`: as they are written; `Fitted`: that they can be entered into the certificate;
-- `Appending`, `Taken`: what appending leaves; `Entering`: a block before the header is written; `Outcome`: what recording answers.
-- Assumes nothing.
pub mod Cut
pub mod Pieces
pub mod Recording
pub mod Fitted
pub mod Appending
pub mod Taken
pub mod Entering
pub mod Outcome
