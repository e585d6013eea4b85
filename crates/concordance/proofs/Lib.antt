-- Laws of the lines of a text and of the verdict on a line.
pub mod Lines
pub mod Places
pub mod Filling
pub mod Steps
pub mod Judging
pub mod Scanning
pub mod Parting
pub mod Splitting
pub mod Literally
pub mod Saying
pub mod Cases
pub mod Paper
