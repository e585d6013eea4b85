-- Laws of a year's leap month and of records made of parts, and the proofs of the statements.
pub mod Cases
pub mod Computing
pub mod Leaps
pub mod Made
pub mod Given
pub mod Exactly
pub mod Paper
pub mod Years
