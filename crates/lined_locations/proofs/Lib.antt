-- Where locations stand, and the steps of the loops and of the search on entries by number. Assumes nothing.
pub mod Places
pub mod Neighbours
pub mod Search
pub mod Addresses
