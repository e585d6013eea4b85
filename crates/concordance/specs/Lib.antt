-- Other people's concordances: the lines of a text, the verdict on a line, what the calls promise, and statements.
pub mod Text
pub mod Verdicts
pub mod Parts
pub mod Promises
pub mod Paper
