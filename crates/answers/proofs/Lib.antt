-- Laws of a text to which an answer is written.
pub mod Writing
