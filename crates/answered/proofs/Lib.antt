-- Laws of texts, of reading into four lists, and the proofs of the statements.
pub mod Reading
pub mod Paper
