-- `Found` has the places of a query stage by stage, `Layout` how they stand in scratch. Assumes nothing.
pub mod Found
pub mod Layout
