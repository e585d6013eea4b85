-- A reader over a text: what its calls promise, and statements.
pub mod Readers
pub mod Paper
