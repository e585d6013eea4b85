-- Laws of the printed lines, and the proofs of the statements.
pub mod Cases
pub mod Refusing
pub mod Paper
