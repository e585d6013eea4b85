-- The facts of years and months: definitions, promises, and statements.
pub mod Facts
pub mod Promises
pub mod Paper
pub mod Years
