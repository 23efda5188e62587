-- `SparseTable` and `DenseTable` say how a table and its children stand, one more at a time; `TableTurns`, `TableTurn` and `TableDone` have the turns of a
-- table, `WholeImage` the image. Assumes nothing.
pub mod SparseTable
pub mod DenseTable
pub mod TableTurns
pub mod TableTurn
pub mod TableDone
pub mod WholeImage
