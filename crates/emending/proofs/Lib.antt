-- Laws of faults and of what is gathered; and the proofs of the statements.
pub mod Faulty
pub mod Literally
pub mod Gathering
pub mod Passing
pub mod Answered
pub mod Listed
pub mod Rows
pub mod Paper
