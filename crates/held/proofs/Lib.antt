-- Laws of lines and of what is held of them, and the proofs of the statements.
pub mod Holding
pub mod Echo
pub mod Paper
