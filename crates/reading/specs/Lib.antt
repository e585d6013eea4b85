-- Readings and the search: definitions, the promise, and statements.
pub mod Readings
pub mod Search
pub mod Paper
