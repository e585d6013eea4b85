-- The answers to queries and lines: definitions, and statements of them.
pub mod Queries
pub mod Paper
