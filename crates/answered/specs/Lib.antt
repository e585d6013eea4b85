-- The answers to a sheet's readings: texts, promises, and how much of an input is needed.
pub mod Answers
pub mod Paper
