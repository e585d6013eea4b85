-- The proofs of the statements.
pub mod Paper
