-- `Says` has what the functions ask of each other and say, of whatever node and fronts stand there. Assumes nothing.
pub mod Says
