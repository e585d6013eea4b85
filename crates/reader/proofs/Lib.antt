-- Laws of a reader.
pub mod Paper
