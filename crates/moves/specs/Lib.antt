-- Moves: definitions, the promise, and demand 3 as statements.
pub mod Moves
pub mod Paper
