-- `Streaming`: a stream recorded block by block before the header is written; `Refusals`: which causes turn a block back; `Single`: a
-- stream call is single records; `Row`: its number stands in its row of the table. Assumes nothing.
pub mod Streaming
pub mod Refusals
pub mod Single
pub mod Row
