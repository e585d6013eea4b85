-- Laws of the clerk's steps, and the statements proved.
pub mod Carries
pub mod Answered
pub mod Steps
pub mod Gone
pub mod Additions
pub mod Paper
