-- `HexBytes` has bytes in a text, `HexAnswers` what the code answers. Assumes nothing.
pub mod HexBytes
pub mod HexAnswers
