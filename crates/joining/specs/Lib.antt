-- `Lists` has the lists that the code hands over, `Below` what the contracts of the search by address cite. Assumes nothing.
pub mod Lists
pub mod Below
