-- `Charges`: what pieces charge; `PieceBytes`, `LogBytes`: what is written is read back; `LogWalk`: its test; `Holding`: what a
-- memory holds. Assumes nothing.
pub mod Charges
pub mod PieceBytes
pub mod LogBytes
pub mod LogWalk
pub mod Holding
