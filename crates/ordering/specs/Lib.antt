-- `Entering` has what the contracts cite. Assumes nothing.
pub mod Entering
