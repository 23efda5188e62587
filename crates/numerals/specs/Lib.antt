-- `Numerals` reads words and numbers, `NumeralAnswers` has what the code's answers mean. Assumes nothing.
pub mod Numerals
pub mod NumeralAnswers
