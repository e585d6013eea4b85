-- The printed lines: definitions, promises, and statements.
pub mod Lines
pub mod Promises
pub mod Paper
