-- Laws of a reading's tests, of its eight numbers back and forth, of both forms, of where they stand; and the proofs of the statements.
pub mod Testing
pub mod Packing
pub mod Forms
pub mod Places
pub mod Wrong
pub mod Paper
