-- `Single` is on one list, `Buffers` on the lists that are walked over and on adding one, `Steps` on stepping over a location, `Walk` on the union.
-- Assumes nothing.
pub mod Single
pub mod Buffers
pub mod Steps
pub mod Walk
