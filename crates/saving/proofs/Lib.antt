-- What each way out of save and load says, what an image is refused with, and what the calls promise of each other. Assumes nothing.
pub mod Laws
pub mod Faults
pub mod Theorems
