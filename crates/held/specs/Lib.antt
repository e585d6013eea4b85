-- The lines of an input: definitions, and statements.
pub mod Held
pub mod Paper
