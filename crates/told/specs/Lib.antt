-- The desk program's answers: their text, and statements of it.
pub mod Answers
pub mod Paper
pub mod Yearbook
