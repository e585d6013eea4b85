-- The yearbook's figures: definitions, promise, and the request's sentences as statements.
pub mod Figures
pub mod Promise
pub mod Paper
