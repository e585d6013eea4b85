-- Laws of named months and of days, and the proofs of the statements.
pub mod Cases
pub mod Computing
pub mod Named
pub mod Days
pub mod Laws
pub mod Paper
