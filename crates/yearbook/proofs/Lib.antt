-- Laws of the counts; and the proofs of the statements.
pub mod Each
pub mod Passing
pub mod Leaps
pub mod Names
pub mod Answered
pub mod Literally
pub mod Sums
pub mod Closed
pub mod Rows
pub mod Joins
pub mod Paper
