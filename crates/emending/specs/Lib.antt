-- Emendations: definitions, promise, and the request's sentences as statements.
pub mod Faults
pub mod Emended
pub mod Paper
