-- Laws of the text of a list, of puts into a lent buffer and of decimal numbers, and the proofs of the statements.
pub mod Putting
pub mod Puts
pub mod Decimals
pub mod Paper
