-- `SlotTurn` has one turn. Assumes nothing.
pub mod SlotTurn
