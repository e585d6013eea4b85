-- Laws of runs of days, of tests and of answers, and the proofs of the statements.
pub mod Computing
pub mod Runs
pub mod Fits
pub mod Answered
pub mod Rows
pub mod Paper
