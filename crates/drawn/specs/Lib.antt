-- What is told of a filled drawer in plain numbers.
pub mod Drawn
