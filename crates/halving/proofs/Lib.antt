-- The steps of the search by halves.
pub mod Halves
