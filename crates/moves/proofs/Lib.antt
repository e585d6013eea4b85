-- Laws of landings, and the proofs of the statements.
pub mod Landing
pub mod Paper
