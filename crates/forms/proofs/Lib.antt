-- Laws of a line's fields.
pub mod Cases
pub mod Scanning
pub mod Fields
pub mod Likeness
pub mod Moves
pub mod Spaces
pub mod Saying
pub mod Paper
