-- What a line asks: definitions, and statements of them.
pub mod Asked
pub mod Paper
