-- Laws of answers, and the proofs of the statements.
pub mod Cases
pub mod Telling
pub mod Refusing
pub mod Finding
pub mod Emending
pub mod Paper
pub mod Yearbook
