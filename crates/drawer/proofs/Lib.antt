-- A list in the middle of its filling; the days of a drawer and its answer; what the days of a month share; what is filled; the rows of
-- the table; and the proofs of the statements.
pub mod Mid
pub mod Days
pub mod Sharing
pub mod Filling
pub mod Rows
pub mod Paper
