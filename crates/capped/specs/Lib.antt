-- Numbers too large for their type: definitions, and what is the same of them.
pub mod Capped
pub mod Paper
