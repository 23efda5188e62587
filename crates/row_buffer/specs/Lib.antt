-- `RowPlaces` has the places of a row, `Answer` what a search answers by its rows. Assumes nothing.
pub mod RowPlaces
pub mod Answer
